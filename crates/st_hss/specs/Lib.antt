-- The definitions that contracts cite.
pub mod Formulas
pub mod Checks
pub mod Kept
pub mod Keys
