pub mod Bares
pub mod Holders
pub mod Orders
pub mod ScalarTrees
pub mod Spelt
pub mod Spoken
pub mod Versioned
pub mod Written
