pub mod Examples
pub mod FileStore
pub mod Folders
pub mod InputSource
pub mod OutputSink
pub mod Reading
