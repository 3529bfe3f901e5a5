pub mod Spreading
pub mod Searching
pub mod Places
pub mod Counting
