pub mod Ceilings
pub mod Commands
pub mod Faultless
pub mod Kept
pub mod KeptServers
pub mod Least
pub mod Places
pub mod Tables
