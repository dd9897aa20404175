pub mod OrdersDrive
pub mod Ends
pub mod Completes
pub mod Merging
pub mod Scheduled
pub mod Agreeing
pub mod Tuples
