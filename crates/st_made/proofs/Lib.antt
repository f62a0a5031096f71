-- Lemmas.
pub mod KeyLaws
pub mod NotedLaws
pub mod ScanLaws
pub mod HandLaws
