pub mod Counts
pub mod Follows
