pub mod WholeRanges
pub mod Places
pub mod Listed
pub mod Frames
mod Worked
