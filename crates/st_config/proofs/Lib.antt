-- Lemmas.
pub mod LineLaws
