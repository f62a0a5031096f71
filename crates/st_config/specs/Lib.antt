-- The definitions that contracts cite.
pub mod Built
pub mod Header
pub mod Parts
pub mod Taken
