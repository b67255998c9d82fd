pub mod Digits
pub mod Grammar
pub mod Table
