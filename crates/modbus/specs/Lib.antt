pub mod Request
pub mod Reply
pub mod Call
pub mod Numbers
pub mod Frames
pub mod Worked
