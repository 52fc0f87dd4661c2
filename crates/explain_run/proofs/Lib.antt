pub mod BlockLemmas
pub mod CommandLine
pub mod Ending
pub mod Filtering
pub mod Numerals
pub mod Progress
