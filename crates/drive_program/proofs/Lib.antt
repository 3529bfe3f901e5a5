pub mod Consumes
pub mod Cuts
pub mod Driving
pub mod Ends
pub mod Longest
pub mod Passing
pub mod Steps
pub mod Windows
mod Worked
