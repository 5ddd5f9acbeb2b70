pub mod Tables
pub mod Entries
pub mod Adding
pub mod AddUp
pub mod Order
pub mod Theorems
