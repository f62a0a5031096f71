-- The definitions that contracts cite.
pub mod Blocks
pub mod Devices
pub mod Errors
pub mod Faults
pub mod Gates
pub mod Journals
pub mod Ready
