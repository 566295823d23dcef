-- The header of a trace: the cores, their memory, and the size and policy of their caches.
pub use Rattle.trace_lang.specs.Traces.{Header}
