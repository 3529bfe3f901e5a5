mod Keeping
mod Room
mod Worked
