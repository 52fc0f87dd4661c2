pub mod Depths
pub mod Joined
pub mod LeafChecks
pub mod PartsOfChecks
pub mod Postfix
