pub mod Stands
pub mod Steps
pub mod Follows
pub use Rattle.document_laws
pub use Rattle.group_rows
pub use Rattle.group_rows.specs.mux_members
pub use Rattle.group_rows.specs.mux_model
pub use Rattle.group_rows.specs.registrations
