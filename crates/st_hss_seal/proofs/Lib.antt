-- Lemmas.
pub mod EmptyLaws
pub mod KeyLaws
