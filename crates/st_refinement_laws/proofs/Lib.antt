-- Lemmas.
pub mod FillLaws
pub mod PlanLaws
pub mod EnterLaws
pub mod KindLaws
pub mod EventLaws
pub mod RunLaws
pub mod SoundLaws
pub mod WorldLaws
pub mod LineLaws
pub mod LogLaws
pub mod FlatLaws
pub mod FiniteLaws
