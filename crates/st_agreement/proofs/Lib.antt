-- Lemmas.
pub mod CertificateLaws
pub mod ExampleLaws
pub mod ExampleSiteLaws
pub mod GrowLaws
pub mod HistoryLaws
pub mod KeptLaws
pub mod MoveLaws
pub mod PendingLaws
pub mod PrepareLaws
pub mod ReportLaws
pub mod RunLaws
pub mod StatementLaws
pub mod VoiceLaws
pub mod WorldLaws
