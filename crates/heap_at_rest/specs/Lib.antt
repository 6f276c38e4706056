pub mod Orderly
pub mod Agreement
pub mod OrderlyExamples
pub mod AgreementExamples
pub mod Draining
