pub mod Across
pub mod NameFacts
pub mod NameLemmas
pub mod NamedRowsFacts
pub mod Stored
