pub mod Bodies
pub mod Decimals
pub mod Heads
pub mod Laws
pub mod LineFeeds
pub mod Longest
pub mod Options
pub mod OutSpellings
pub mod Smallness
pub mod Spellings
pub mod Texts
pub mod Turns
mod Worked
