pub mod Week
pub mod Worked
