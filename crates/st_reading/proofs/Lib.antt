-- Lemmas.
pub mod KnownLaws
pub mod KeptLaws
pub mod ReadLaws
pub mod SameSealsLaws
pub mod SealLaws
pub mod CheckedLaws
