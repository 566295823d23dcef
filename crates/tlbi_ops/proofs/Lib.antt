pub mod Worked
pub mod Shifts
pub mod Extents
pub mod Wider
