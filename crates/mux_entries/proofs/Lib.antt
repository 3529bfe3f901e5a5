pub mod EditorAsks
pub mod EditorBuilt
pub mod EditorRows
pub mod Said
pub mod Questions
pub mod Joining
pub mod Carried
pub mod Exits
