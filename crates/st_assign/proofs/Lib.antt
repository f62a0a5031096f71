-- Lemmas.
pub mod FitLaws
pub mod ReasonLaws
pub mod FillLaws
