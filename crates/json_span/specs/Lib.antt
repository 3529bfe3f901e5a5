pub mod Classes
pub mod Machine
pub mod Views
pub mod Words
pub mod Characters
pub use Rattle.json_nodes
