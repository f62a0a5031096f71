-- The definitions that contracts cite.
pub mod Kind
pub mod Ranges
pub mod Spelling
pub mod Reading
