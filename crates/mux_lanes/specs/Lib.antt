pub mod Lanes
pub mod Runs
pub mod Ticks
pub mod Starts
