pub mod Clients
pub mod Programs
