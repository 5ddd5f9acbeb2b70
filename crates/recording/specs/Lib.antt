pub mod Form
pub mod Replay
pub mod Statement
pub mod Progress
pub mod Known
pub mod Alone
