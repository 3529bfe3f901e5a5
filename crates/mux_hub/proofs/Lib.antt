pub mod Counting
pub mod Counts
pub mod HubLaw
pub mod OwnTexts
pub mod Quick
pub mod Spawned
pub mod Sessions
pub mod Stopped
