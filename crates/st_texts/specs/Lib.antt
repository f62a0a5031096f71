-- The definitions that contracts cite.
pub mod Hexadecimal
pub mod Numbers
pub mod Parts
