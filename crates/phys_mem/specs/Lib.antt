pub mod Memory
pub mod Ranges
pub mod Words
pub mod Pages
