pub mod Complete
pub mod Faults
pub mod Firsts
pub mod Forms
pub mod Places
pub mod Sound
pub mod Written
