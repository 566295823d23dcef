pub use Rattle.sysregs.specs.Registers
pub use Rattle.sysregs.specs.Names
pub use Rattle.sysregs.specs.Refused
pub use Rattle.sysregs.specs.Ops
pub use Rattle.permissions.specs.AccessNames
pub use Rattle.phys_mem.specs.Memory
pub use Rattle.phys_mem.specs.Ranges
pub use Rattle.phys_mem.specs.Words as MemoryWords
pub use Rattle.texts.specs.Numbers
pub use Rattle.texts.specs.Texts
pub mod Traces
pub mod Words
pub mod Events
pub mod Lines
pub mod Canonical
pub mod Views
pub mod Limits
