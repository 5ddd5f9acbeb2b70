pub mod Reading
pub mod Writing
pub mod Calling
pub mod Theorems
