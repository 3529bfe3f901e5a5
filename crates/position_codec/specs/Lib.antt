pub mod Position
pub mod Walk
pub mod Spots
