-- Lemmas.
pub mod CutLaws
pub mod NoteLaws
pub mod HearLaws
pub mod SealedLaws
pub mod LiveLaws
pub mod PlacedLaws
pub mod StandLaws
