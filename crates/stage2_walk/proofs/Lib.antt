pub mod OnWords
pub mod Accepted
pub mod Entered
pub mod Levels
pub mod Starts
pub mod OnKept
pub mod Ends
