pub mod Holds
pub mod Steps
