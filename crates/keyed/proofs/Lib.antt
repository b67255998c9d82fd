pub mod Equations
pub mod Seeks
