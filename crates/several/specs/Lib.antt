pub mod Several
pub mod Beside
pub mod Answers
pub mod OneByOne
pub mod Worked
pub mod WorkedBeside
