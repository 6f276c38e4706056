pub mod Account
pub mod Delivery
pub mod Rule
pub mod Row
pub mod Examples
