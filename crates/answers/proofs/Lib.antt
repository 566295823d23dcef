pub mod Accepted
pub mod Answered
pub mod DumpMemory
pub mod Registers
pub mod Ending
pub mod Passing
