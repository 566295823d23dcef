pub mod Indices
pub mod Sizes
pub mod Fits
pub mod Leaves
