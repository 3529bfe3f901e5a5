pub mod Daemons
pub mod Faults
