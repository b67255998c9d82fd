pub mod Keyed
pub mod Sameness
pub mod Used
