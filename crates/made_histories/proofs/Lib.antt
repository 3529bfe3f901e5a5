pub mod Comes
pub mod Fitting
pub mod Ties
