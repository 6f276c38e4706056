pub mod Origins
pub mod Reaching
pub mod Steps
pub mod Laws
