-- Lemmas.
pub mod EndLaws
pub mod SendLaws
pub mod NoteLaws
pub mod HandLaws
pub mod ServeLaws
pub mod DeliverLaws
pub mod CustomerLaws
pub mod FlowLaws
pub mod SubmitLaws
pub mod ForgedLaws
pub mod NewLaws
pub mod StepLaws
pub mod AnswerLaws
