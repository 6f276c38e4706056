pub mod Examples
pub mod Left
pub mod Rooms
pub mod Said
pub mod Sending
pub mod Taking
