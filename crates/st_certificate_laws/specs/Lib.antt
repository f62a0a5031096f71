-- The definitions that contracts cite.
pub mod Certified
pub mod Views
