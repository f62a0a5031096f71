-- Lemmas.
pub mod PlaceLaws
