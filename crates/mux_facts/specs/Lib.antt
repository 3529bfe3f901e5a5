pub mod Allowed
pub mod Ranges
pub use Rattle.mux_model
