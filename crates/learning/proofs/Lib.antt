pub mod Guards
pub mod Moves
pub mod Refusing
pub mod Moving
pub mod Accepting
pub mod Exact
