-- Lemmas.
pub mod NumberLaws
pub mod FlatRunLaws
