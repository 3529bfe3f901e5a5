pub mod Going
pub mod Noting
pub mod Paying
pub mod Standing
