-- Lemmas.
pub mod EntriesLaws
