-- What the contracts of an object of slots and workers cite: its slots, and what is kept of it.
pub mod Objects
pub mod Slots
