pub mod Answers
pub mod Chosen
pub mod Faults
pub mod Settings
