pub mod Traces
pub mod Playing
