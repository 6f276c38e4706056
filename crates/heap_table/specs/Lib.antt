pub mod SeatViews
pub mod Reached
pub mod Rule
pub mod Plays
pub mod AtTable
pub mod Examples
