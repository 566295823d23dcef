pub use Rattle.permissions.specs.AccessNames
pub use Rattle.texts.specs.Numbers
pub mod Asked
pub mod Command
pub mod Clap
