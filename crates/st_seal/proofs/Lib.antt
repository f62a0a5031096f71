-- Lemmas.
pub mod CollectingLaws
pub mod CompleteLaws
pub mod RisingLaws
