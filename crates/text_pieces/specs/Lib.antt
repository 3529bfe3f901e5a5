pub mod Counts
pub mod Pieces
pub mod Rests
pub mod Sums
