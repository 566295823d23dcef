pub mod Acts
pub mod Ranges
pub mod Seated
pub mod Seating
pub mod Steps
