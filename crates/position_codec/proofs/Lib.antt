pub mod After
pub mod Boundaries
pub mod Cut
mod Advancing
mod Places
mod Sorts
pub mod Spots
mod Starts
mod Turns
mod Worked
