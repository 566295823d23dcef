pub use Rattle.geometry.specs.Tables
pub use Rattle.table_reads.specs.Numbers
pub use Rattle.walk_spec.specs.Needs
