-- The definitions that contracts cite.
pub mod Certificates
pub mod Collecting
pub mod Keyed
pub mod KeyedLaws
pub mod KeyedSchemes
pub mod KeyedSealers
pub mod Pen
pub mod Rising
pub mod Scheme
pub mod VoiceLaws
pub mod Voices
