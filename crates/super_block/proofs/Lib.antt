pub mod ConstantLemmas
pub mod DivisionLemmas
pub mod NamingLemmas
pub mod IndexLemmas
pub mod DirectoryLemmas
