pub mod Documents
pub mod Holders
pub mod Noted
pub mod Rows
pub mod Versions
pub mod Walks
pub use Rattle.document_table
