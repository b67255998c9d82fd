pub mod Buffers
pub mod Faults
pub mod Items
pub mod Parts
pub mod Ranges
pub mod Reads
