pub use Rattle.trace_lang.specs.Traces
pub mod Drill
