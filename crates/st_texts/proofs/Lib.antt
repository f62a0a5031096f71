-- Lemmas.
pub mod HexadecimalLaws
pub mod NumberLaws
pub mod PartLaws
