-- Lemmas.
pub mod RiseLaws
pub mod CountLaws
pub mod QuorumLaws
pub mod CertificateLaws
pub mod AskLaws
pub mod CertificateFacts
pub mod SlotParts
pub mod ViewParts
pub mod HandParts
pub mod CertificateCourse
pub mod CertificateDuty
pub mod ReadLaws
pub mod CertificateWorlds
pub mod EnterLaws
pub mod AskedLaws
