pub mod Among
pub mod Closing
pub mod Joined
pub mod Quick
pub mod Sparse
