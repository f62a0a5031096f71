-- The definitions that contracts cite.
pub mod Keys
pub mod Sealing
pub mod SealingLaws
pub mod Schemes
pub mod Kept
pub mod Sealers
