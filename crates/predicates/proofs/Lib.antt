pub mod OpenRoots
pub mod Opposites
