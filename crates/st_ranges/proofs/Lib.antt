-- Lemmas.
pub mod ChoiceLaws
pub mod RisingLaws
pub mod StateLaws
pub mod MadeLaws
pub mod ReportLaws
pub mod CourseLaws
pub mod StepLaws
pub mod FillLaws
pub mod PartLaws
pub mod TickLaws
pub mod UnionLaws
pub mod ViewLaws
pub mod DutyLaws
pub mod WorldLaws
