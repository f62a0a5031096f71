-- The definitions that contracts cite.
pub mod Deployed
pub mod Answered
pub mod Placeless
