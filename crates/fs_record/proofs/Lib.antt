pub mod Places
pub mod Readings
pub mod Examples
pub mod FactsExamples
