pub mod Spreads
pub mod Choices
pub mod Bounds
pub mod Writes
pub mod Joins
pub mod Reaches
