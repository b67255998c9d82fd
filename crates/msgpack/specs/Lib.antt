pub mod Doubles
pub mod Encodings
pub mod Numbers
pub mod Overview
pub mod Text
