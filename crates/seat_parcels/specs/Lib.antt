pub mod Boxes
pub mod Examples
pub mod Going
pub mod Laws
pub mod Parcels
pub mod Trays
