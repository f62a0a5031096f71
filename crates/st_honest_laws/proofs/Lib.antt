-- Lemmas.
pub mod SealFacts
pub mod SealParts
pub mod SealMore
pub mod SealCourse
pub mod MadeLaws
pub mod HonestWorlds
pub mod RangedLaws
