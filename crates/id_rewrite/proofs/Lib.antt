pub mod Finding
pub mod Keeping
pub mod Forming
pub mod Prints
pub mod Rising
pub mod Slotting
