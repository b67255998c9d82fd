pub mod Attributed
pub mod Judged
