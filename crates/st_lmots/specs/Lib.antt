-- The definitions that contracts cite.
pub mod Kinds
pub mod Formulas
pub mod Answers
