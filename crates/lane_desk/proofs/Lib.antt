pub mod Begins
pub mod Ends
pub mod Turns
pub mod Decks
