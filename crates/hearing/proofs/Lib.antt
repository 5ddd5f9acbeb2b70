pub mod Says
pub mod Agreement
pub mod Exact
pub mod Steps
pub mod Asking
