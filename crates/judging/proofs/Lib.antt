pub mod Loop
pub mod Next
pub mod Theorem
