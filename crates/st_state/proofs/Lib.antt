-- Lemmas.
pub mod SlotsLaws
pub mod SharesLaws
pub mod OwnLaws
pub mod HandLaws
pub mod CutLaws
pub mod StillLaws
pub mod ForcedLaws
