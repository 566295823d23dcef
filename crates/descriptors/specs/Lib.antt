pub use Rattle.geometry.specs.Tables
pub use Rattle.geometry.specs.Runs
pub use Rattle.sysregs.specs.Registers
pub use Rattle.sysregs.specs.Sides
pub use Rattle.bitwords.specs.Fields
pub mod Meaning
pub mod Bounds
