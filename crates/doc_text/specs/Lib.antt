pub mod Changes
pub mod Found
pub mod Gaps
pub mod Numbers
pub use Rattle.position_codec
