-- Lemmas.
pub mod GatherLaws
pub mod GrowthLaws
pub mod QuestionLaws
pub mod RuleLaws
pub mod UnionLaws
pub mod CourseLaws
pub mod DropLaws
pub mod SameLaws
pub mod FieldLaws
pub mod PlanLaws
pub mod PlainLaws
pub mod PartLaws
pub mod WorldLaws
pub mod BelowLaws
