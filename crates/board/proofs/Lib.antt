pub mod Laws
pub mod Search
pub mod Requests
pub mod Theorems
pub mod Independent
pub mod Exactly
