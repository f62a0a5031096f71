-- Lemmas.
pub mod PlaceLaws
pub mod CountLaws
pub mod SignedLaws
pub mod FitLaws
