pub mod ContentCases
pub mod FileTests
