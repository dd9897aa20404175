pub mod Draws
pub mod Generated
pub mod Queries
pub mod Summaries
pub mod Tables
