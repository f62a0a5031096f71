-- The definitions that contracts cite.
pub mod Answers
pub mod Example
pub mod Exit
pub mod Outcomes
pub mod Promised
