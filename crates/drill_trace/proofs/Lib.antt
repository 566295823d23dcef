pub mod Lists
pub mod Fits
