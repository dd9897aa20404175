pub mod Scenes
pub mod Stints
pub mod Plays
pub mod Collected
pub mod Runs
pub mod Rests
pub mod Seated
