pub mod ReadDigits
pub mod Onto
pub mod Shown
pub mod Values
pub mod Pairs
mod Hex
mod Behind
