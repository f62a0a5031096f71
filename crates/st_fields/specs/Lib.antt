-- The definitions that contracts cite.
pub mod Spelling
pub mod Reading
