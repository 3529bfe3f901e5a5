pub mod Rows
pub mod Stands
pub use Rattle.group_rows
pub use Rattle.held_requests
pub use Rattle.numbered_rows
