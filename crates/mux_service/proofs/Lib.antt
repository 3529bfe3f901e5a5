pub mod Own
pub mod Speaking
pub mod Stopping
pub mod Serving
