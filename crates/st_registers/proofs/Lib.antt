-- Lemmas.
pub mod AdvancesLaws
pub mod FlatLaws
pub mod RunLaws
pub mod SafeLaws
pub mod StepLaws
pub mod TableLaws
pub mod ValueLaws
pub mod WellLaws
