-- The definitions that contracts cite.
pub mod Certificates
pub mod Example
pub mod ExampleMoves
pub mod ExampleSite
pub mod MiniSteps
pub mod Records
pub mod Reports
pub mod Rules
pub mod Runs
pub mod Sites
pub mod Statements
pub mod Unions
pub mod Worlds
