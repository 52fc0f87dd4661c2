pub mod Forests
pub mod Lines
pub mod Preorder
pub mod FirstTrees
pub mod OwnedFields
pub mod StaticReads
