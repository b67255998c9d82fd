pub mod Making
pub mod RowFields
pub mod Rows
