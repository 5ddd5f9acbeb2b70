pub mod Laying
pub mod Fits
pub mod Answering
pub mod ByPC
pub mod Theorems
pub mod Requests
pub mod AsPC
