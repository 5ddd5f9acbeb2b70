pub mod Banked
pub mod Steps
pub mod Worked
