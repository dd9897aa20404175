-- What the contracts of a table on one thread cite: objects without cells, tables, and seats.
pub mod Seats
pub mod Stories
pub mod Tables
