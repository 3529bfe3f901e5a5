pub mod Encodings
pub mod Silent
pub mod Told
pub use Rattle.group_sessions
