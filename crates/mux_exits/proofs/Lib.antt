pub mod Gathering
pub mod Saying
pub mod Turning
pub mod Rows
pub mod Ending
