-- Lemmas: the frame of invariants.
pub mod ChoiceLaws
pub mod StateFrame
pub mod OwnFrame
pub mod PartFrame
pub mod FillFrame
pub mod CourseFrame
pub mod WorldFrame
pub mod NodeFrame
pub mod SentFrame
pub mod ExactLaws
