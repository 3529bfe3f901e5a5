pub mod Entries
pub mod Hubs
pub mod Sessions
pub mod Starts
pub use Rattle.group_sessions.specs.group_facts
