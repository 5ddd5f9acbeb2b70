pub mod Learn
