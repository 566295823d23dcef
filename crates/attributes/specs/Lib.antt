pub use Rattle.bitwords.specs.Fields
pub mod Memory
pub mod Laws
