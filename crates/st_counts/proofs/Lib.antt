-- Lemmas.
pub mod CountLaws
pub mod MemberLaws
pub mod QuorumLaws
