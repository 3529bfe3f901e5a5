pub mod Losses
pub mod Partings
pub use Rattle.mux_starts
