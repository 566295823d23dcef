pub use Rattle.bitwords.specs.Fields
pub use Rattle.sysregs.specs.Registers
pub use Rattle.sysregs.specs.Ops
pub mod Operands
pub mod Covers
pub mod Laws
