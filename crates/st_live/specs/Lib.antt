-- The definitions that contracts cite.
pub mod Service
pub mod LiveView
