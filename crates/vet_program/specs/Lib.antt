pub mod Colours
pub mod Ends
pub mod Faults
pub mod Progress
pub mod Sources
pub mod Summaries
pub mod Wants
pub mod Words
