pub mod Changing
pub mod Counting
pub mod Following
pub mod Keeping
pub mod Owning
pub mod Sends
pub mod Tellings
