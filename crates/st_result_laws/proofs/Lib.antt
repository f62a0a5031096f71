-- Lemmas.
pub mod ReplyParts
pub mod ReplyCourse
pub mod ReplyWorlds
pub mod VoucherLaws
pub mod CustomerLaws
pub mod ResultLaws
