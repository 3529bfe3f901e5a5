pub mod Characters
pub mod NumberMoves
pub mod Runs
pub mod StringMoves
