pub mod Ends
pub mod Rows
pub mod Stands
pub use Rattle.group_rows
pub use Rattle.progress_route
