pub use Rattle.bitwords.specs.Causes
pub use Rattle.dump_file.specs.Held
pub use Rattle.explain_text.specs.Written
pub mod Status
pub mod ErrText
pub mod Stops
