-- Lemmas.
pub mod DestinationLaws
pub mod PassingLaws
pub mod PlaceLaws
pub mod KeepLaws
pub mod RowLaws
