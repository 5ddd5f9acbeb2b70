pub mod Beside
pub mod Steps
pub mod Calls
pub mod Ends
pub mod Holds
