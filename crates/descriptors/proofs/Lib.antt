pub mod Addresses
pub mod Granules
pub mod Bounds
