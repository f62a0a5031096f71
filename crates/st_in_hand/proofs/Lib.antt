-- Lemmas.
pub mod HeardLaws
pub mod ExecutionLaws
pub mod QuietLaws
pub mod CourseLaws
pub mod EventLaws
pub mod ServerLaws
