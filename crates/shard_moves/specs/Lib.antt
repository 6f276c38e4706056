pub mod Arriving
pub mod Examples
pub mod Inboxes
pub mod Moves
pub mod Outboxes
pub mod Tables
