pub mod Counts
pub mod Puttings
pub mod Sinks
pub mod Slices
