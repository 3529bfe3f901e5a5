mod Numbering
mod Keeping
mod Telling
mod Worked
