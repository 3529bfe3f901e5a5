mod Numbering
mod Keeping
mod Taking
mod Worked
