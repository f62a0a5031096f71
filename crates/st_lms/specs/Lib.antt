-- The definitions that contracts cite.
pub mod Kinds
pub mod Formulas
pub mod Answers
pub mod Trees
pub mod TreeSecrets
