pub mod OneOf
pub mod Level
