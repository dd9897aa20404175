pub mod Others
pub mod Places
pub mod SeatCells
pub mod Seated
pub mod Since
pub mod TableCells
pub mod TablesKept
pub mod Trails
