-- Lemmas.
pub mod AnswerLaws
