mod Linked
mod Distinct
pub mod Items
mod Hashed
mod Adding
mod Aggregates
mod Puts
mod Folding
mod Merging
mod PartKeys
mod Places
mod Groups
mod Known
pub mod TableRows
pub mod Found
