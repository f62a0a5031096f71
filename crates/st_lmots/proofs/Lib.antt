-- Lemmas.
pub mod ChainLaws
pub mod GatherLaws
pub mod JoinLaws
pub mod SealLaws
pub mod SumLaws
