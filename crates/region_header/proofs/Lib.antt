pub mod EmptyKinds
mod FormatLemmas
pub mod KindLemmas
pub mod MigrationLemmas
pub mod ReachedLemmas
pub mod SameHeader
mod StoredLemmas
pub mod WordBytes
