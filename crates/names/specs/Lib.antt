pub mod Keys
pub mod Names
pub mod Tells
