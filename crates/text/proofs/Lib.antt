pub mod Words
pub mod Writing
pub mod Printable
pub mod Decimal
