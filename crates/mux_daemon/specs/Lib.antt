pub mod Opens
pub mod Settles
pub mod Rans
pub mod Served
pub mod Sessions
pub mod Starts
pub mod Events
pub mod Causes
