-- The definitions that contracts cite.
pub mod Fair
pub mod Sound
pub mod Plain
pub mod Support
