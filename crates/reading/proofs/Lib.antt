pub mod Arrays
pub mod Counts
pub mod Held
pub mod Rowed
