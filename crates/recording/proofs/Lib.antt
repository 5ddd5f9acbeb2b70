pub mod Asked
pub mod Unseen
pub mod Laws
pub mod Consequences
pub mod Exact
pub mod Bites
pub mod Alarms
pub mod Flag
