-- The definitions that contracts cite.
pub mod Deployed
pub mod Deployable
