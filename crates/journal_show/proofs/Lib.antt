pub mod Parts
pub mod Readings
pub mod Scans
mod Worked
