pub mod Begins
pub mod Laws
pub mod Vectors
