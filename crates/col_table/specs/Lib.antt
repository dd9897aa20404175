pub mod Columns
pub mod Mark
pub mod Name
pub mod NamedRows
pub mod Refusals
pub mod Stored
pub mod Verdicts
