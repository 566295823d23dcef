pub mod Accepted
mod Documents
mod Worked
