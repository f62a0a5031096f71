-- The definitions that contracts cite.
pub mod Errors
pub mod Customers
pub mod Standing
pub mod Handing
pub mod Serving
pub mod Answers
pub mod Flows
pub mod Submitting
pub mod Honest
pub mod First
