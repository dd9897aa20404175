pub mod OneProof
pub mod Plans
pub mod Benches
pub mod Gathering
pub mod Tilings
