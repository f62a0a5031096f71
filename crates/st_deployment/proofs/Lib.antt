-- Lemmas.
pub mod PlanLaws
pub mod SealLengths
pub mod SetLaws
pub mod FormatLaws
pub mod RangeLaws
