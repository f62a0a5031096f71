-- The definitions that contracts cite.
pub mod Ranges
pub mod Deployments
