pub mod Expected
pub mod Sifted
pub mod Told
pub mod Unmet
