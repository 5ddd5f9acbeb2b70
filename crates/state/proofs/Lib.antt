pub mod Parameters
pub mod Alarms
pub mod Validity
pub mod Fields
pub mod Events
pub mod Kept
pub mod Whole
