pub mod Written
pub mod Escapes
pub mod Steps
pub mod PointerCases
pub mod NullCases
pub mod Pointed
