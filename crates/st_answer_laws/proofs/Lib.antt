-- Lemmas.
pub mod RangeLaws
pub mod ForcedLaws
pub mod RecordLaws
pub mod StandLaws
pub mod OwnLaws
pub mod SealLaws
pub mod KeepLaws
pub mod WayLaws
pub mod NormalLaws
pub mod ExecuteLaws
pub mod ViewLaws
pub mod UnionLaws
pub mod BundleLaws
pub mod BundledLaws
