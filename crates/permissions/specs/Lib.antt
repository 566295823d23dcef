pub use Rattle.bitwords.specs.Fields
pub mod Rights
pub mod Laws
pub mod AccessNames
