-- Lemmas.
pub mod EachLaws
pub mod RangesLaws
