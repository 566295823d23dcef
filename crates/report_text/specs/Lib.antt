pub use Rattle.machine_spec.specs.Summary
pub use Rattle.explain_text.specs.Explained
pub use Rattle.explain_text.specs.Written
pub mod Report
pub mod Waits
pub mod Reports
pub mod Bounds
