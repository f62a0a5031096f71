-- Lemmas.
pub mod Cores
pub mod Fields
pub mod Kept
pub mod Statements
