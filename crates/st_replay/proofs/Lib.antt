-- Lemmas.
pub mod EndLaws
pub mod LineLaws
pub mod RowLaws
pub mod ReplayLaws
