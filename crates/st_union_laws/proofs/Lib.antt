-- Lemmas.
pub mod CoverLaws
pub mod RecordedLaws
pub mod UnionParts
pub mod UnionCourse
pub mod ReadReports
pub mod UnionWorlds
pub mod UnionLaws
