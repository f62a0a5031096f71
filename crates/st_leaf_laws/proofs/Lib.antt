-- Lemmas.
pub mod LeafFacts
pub mod LeafWorlds
pub mod LeafKeys
pub mod LeafRecords
pub mod LeafCourse
pub mod LeafParts
pub mod LeafDuty
pub mod LeafFill
pub mod OneLeaf
pub mod RecordLaws
