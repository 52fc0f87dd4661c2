pub mod Halving
pub mod Memberships
pub mod Calls
pub mod GivenItems
pub mod Ascending
pub mod Multisets
pub mod Referred
