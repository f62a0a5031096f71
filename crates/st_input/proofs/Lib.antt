-- Lemmas.
pub mod EventLaws
pub mod FirstLaws
pub mod InputLaws
pub mod PartedLaws
