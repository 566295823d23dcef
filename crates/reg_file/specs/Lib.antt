pub use Rattle.sysregs.specs.Refused
pub mod RegisterFile
