pub mod Rows
pub mod Counted
pub mod Listing
pub mod Dropping
pub mod Depths
pub mod Steps
mod Unrolled
pub mod Answered
pub mod OddRows
pub mod QuotaTallies
