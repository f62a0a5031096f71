-- Lemmas.
pub mod Kept
pub mod PartFields
pub mod MessageFields
pub mod WholeMessages
pub mod Laying
pub mod Shares
pub mod Sizes
pub mod Standing
