pub mod Scripts
pub mod BothEvaluated
pub mod InBoxes
