pub mod Style
pub mod Characters
pub mod StyledLines
