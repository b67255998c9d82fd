pub mod Payloads
pub mod Records
pub mod Steps
pub mod Tellings
pub mod Tree
