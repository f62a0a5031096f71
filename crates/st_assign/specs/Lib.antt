-- The definitions that contracts cite.
pub mod Parts
pub mod Replied
pub mod Reasons
pub mod Above
pub mod FillView
