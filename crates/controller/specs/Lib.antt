pub mod Call
pub mod Worked
