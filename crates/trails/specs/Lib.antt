pub use Rattle.sysregs.specs.Registers
pub use Rattle.sysregs.specs.Sides
pub use Rattle.permissions.specs.Rights
pub use Rattle.attributes.specs.Memory
pub use Rattle.fault_codes.specs.Status
pub mod Lengths
pub mod Printed
