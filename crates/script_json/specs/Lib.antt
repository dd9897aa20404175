pub mod Canonical
pub mod Format
pub mod Forms
pub mod Objects
pub mod Paths
pub mod Scripts
pub mod Verdicts
pub mod WellFormed
