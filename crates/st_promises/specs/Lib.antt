-- The definitions that contracts cite.
pub mod Logs
pub mod Promises
