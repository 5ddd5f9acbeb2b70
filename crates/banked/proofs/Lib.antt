pub mod Phases
pub mod Steps
pub mod Unseen
pub mod Theorems
pub mod Left
pub mod ReadBack
pub mod Exactly
