mod Answering
pub mod Asking
mod Making
mod Placing
mod ReadLaw
pub mod Responding
mod Rising
mod Sides
mod Stamps
mod Swapping
mod Walks
mod Worked
