-- Lemmas.
pub mod KeptLaws
pub mod EndLaws
pub mod PlainKept
pub mod FlowLaws
pub mod SendLaws
pub mod BoundLaws
pub mod LineLaws
pub mod ServeLaws
