-- The definitions that contracts cite.
pub mod Known
pub mod Counts
pub mod Sites
