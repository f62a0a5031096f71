-- Lemmas.
pub mod PathLaws
pub mod SealLaws
pub mod TreeLaws
