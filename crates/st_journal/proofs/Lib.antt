-- Lemmas.
pub mod BlockLaws
pub mod Counts
pub mod CrashLaws
pub mod Runs
pub mod Steps
