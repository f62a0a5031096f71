-- Lemmas.
pub mod FirstLaws
pub mod BoundLaws
pub mod DrawLaws
pub mod EmitLaws
pub mod CarryLaws
pub mod LoopLaws
pub mod LeafLaws
pub mod FillLaws
pub mod LowLaws
pub mod AnswerLaws
pub mod ExecutionLaws
pub mod ServeLaws
pub mod FreshLaws
pub mod StandingLaws
