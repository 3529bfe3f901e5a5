pub mod Rows
pub mod Lists
pub mod Moves
pub mod Unheld
