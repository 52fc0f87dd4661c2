mod Slices
mod AlreadyTrimmed
mod Found
mod Verdicts
mod Counting
pub mod Trimming
pub mod LineEndings
pub mod CaseFolding
pub mod AdapterAnswers
pub mod OneByte
pub mod Searching
pub mod Refusing
