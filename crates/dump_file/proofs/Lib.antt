pub mod Counting
pub mod Filling
pub mod Collected
pub mod Openings
pub mod Keeping
pub mod Served
pub mod Worked
