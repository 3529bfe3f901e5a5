pub mod Matched
pub mod Spelled
