-- The definitions that contracts cite.
pub mod Rows
pub mod Customers
pub mod Replying
