-- Lemmas.
pub mod StreamLaws
