pub mod Alignment
pub mod Weaker
pub mod Below
