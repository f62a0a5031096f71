-- The definitions that contracts cite.
pub mod Causes
pub mod Memory
pub mod Plans
pub mod Streams
