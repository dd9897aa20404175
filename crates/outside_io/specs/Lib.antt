pub mod Faults
pub mod Pieces
pub mod Refusals
pub mod FilesInMemory
pub mod SinkInMemory
pub mod Adapters
