-- The definitions that contracts cite.
pub mod Ends
pub mod Lines
pub mod Replay
