pub mod Loading
pub mod Numbers
pub mod Reading
pub mod RefusalText
pub mod Refusals
pub mod Verdicts
pub mod Writing
