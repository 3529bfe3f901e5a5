pub mod Buffers
pub mod Faults
pub mod Lines
pub mod Program
pub mod Runs
pub mod Steps
pub mod Stops
