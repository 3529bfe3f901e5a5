pub mod Backlogs
pub use Rattle.mux_turns
pub use Rattle.mux_turns.specs.document_laws
pub use Rattle.mux_turns.specs.group_laws
pub use Rattle.mux_turns.specs.mux_tables
