pub mod Lists
pub mod Published
pub mod Rows
pub mod Shown
