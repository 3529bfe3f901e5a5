pub mod Names
pub mod Ends
pub mod Services
