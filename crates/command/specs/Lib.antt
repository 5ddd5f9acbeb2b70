pub mod Status
pub mod Commands
pub mod Refusals
pub mod Answer
pub mod Bench
pub mod Request
