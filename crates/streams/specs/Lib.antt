pub mod Gaps
pub mod Lines
pub mod RecordSteps
pub mod Records
pub mod RunFault
pub mod Runs
pub mod Steps
