-- The definitions that contracts cite.
pub mod Advances
pub mod Answers
pub mod FlatWorld
pub mod Slots
pub mod Steps
pub mod Tests
pub mod Values
pub use Rattle.st_counts.specs.Counts
