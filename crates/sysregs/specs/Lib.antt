pub use Rattle.bitwords.specs.Fields
pub mod Registers
pub mod Sides
pub mod Refused
pub mod Equality
pub mod Names
pub mod Ops
