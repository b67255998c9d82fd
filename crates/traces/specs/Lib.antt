pub mod Entries
pub mod Examples
pub mod Looks
pub mod Meaning
pub mod Resolve
pub mod Traces
pub mod Well
