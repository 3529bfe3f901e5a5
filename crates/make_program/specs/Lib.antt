pub mod Counts
pub mod Program
pub mod Runs
pub mod Shown
