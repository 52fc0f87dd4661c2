pub mod Answers
pub mod Blocks
pub mod CommandLine
pub mod Exits
pub mod Filtered
pub mod Number
pub mod Runs
pub mod TextAnswers
