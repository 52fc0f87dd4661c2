pub mod Join
pub mod Not
pub mod Limit
pub mod Rules
