pub mod Cancels
pub mod Halting
pub mod Handing
pub mod Running
pub mod Shows
pub mod Tellings
pub mod Works
