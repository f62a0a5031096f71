-- Lemmas.
pub mod FitLaws
pub mod InHandLaws
pub mod AcceptLaws
