-- The definitions that contracts cite.
pub mod Destinations
pub mod Passing
pub mod Places
pub mod Undelivered
