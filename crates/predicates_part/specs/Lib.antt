pub mod Part
pub mod Optional
pub mod Members
pub mod Length
