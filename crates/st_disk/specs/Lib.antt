-- The definitions that contracts cite.
pub mod Calls
pub mod Countdowns
pub mod Crashes
pub mod FileDisks
pub mod FileRacks
pub mod Files
pub mod Memory
pub mod MemoryLaws
pub mod MemoryPlaces
pub mod MemoryRacks
pub mod Racks
pub mod Worn
