pub mod Empty
pub mod Header
pub mod Migration
pub mod Words
