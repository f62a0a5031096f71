-- Lemmas.
pub mod OnceLaws
pub mod FlowLaws
pub mod KeepLaws
pub mod DeployedLaws
