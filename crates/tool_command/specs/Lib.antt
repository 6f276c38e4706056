pub mod CommandLine
pub mod Command
pub mod Invocations
pub mod Forms
pub mod FormExamples
pub mod Examples
