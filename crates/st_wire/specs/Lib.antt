-- The definitions that contracts cite.
pub mod Kind
pub mod Spelling
pub mod Ranges
pub mod Reading
pub mod Errors
pub mod Seals
pub mod Layout
