pub mod Slots
pub mod Strides
pub mod Fields
