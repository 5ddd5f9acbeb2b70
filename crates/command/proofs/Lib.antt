pub mod Parsing
pub mod Tables
pub mod Agree
pub mod Fits
pub mod Serving
pub mod Alarms
pub mod Beside
