-- Lemmas.
pub mod Fields
pub mod Leaves
pub mod Lists
pub mod Loop
pub mod Numbers
pub mod Wholes
