pub mod Kept
pub mod Sessions
pub use Rattle.number_index
