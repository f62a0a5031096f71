-- The definitions that contracts cite.
pub mod Events
pub mod Exact
