-- Lemmas.
pub mod KeptLaws
pub mod SealLaws
