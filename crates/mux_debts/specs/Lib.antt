pub use Rattle.mux_turns
pub use Rattle.refresh_debts
pub mod Going
pub mod Noted
pub mod Stands
