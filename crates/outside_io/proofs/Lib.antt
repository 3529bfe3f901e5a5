pub mod Growth
pub mod Gifts
