pub mod Accepted
pub mod OnEntries
pub mod SideNumbers
pub mod Above
