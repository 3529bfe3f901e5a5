pub mod Gathering
pub mod Keyed
pub mod Offers
pub mod Slashes
