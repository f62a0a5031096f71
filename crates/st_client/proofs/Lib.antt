-- Lemmas.
pub mod RowLaws
pub mod KeepLaws
pub mod ReplyLaws
