pub mod Frame
pub mod Numbers
pub mod Answer
pub mod Worked
