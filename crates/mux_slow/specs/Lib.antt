pub mod Told
pub use Rattle.group_facts
pub use Rattle.mux_causes
pub use Rattle.mux_tables
