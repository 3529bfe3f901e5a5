pub mod Kinds
pub mod Places
pub mod Givens
pub mod Smalls
pub mod Stops
pub mod Desks
