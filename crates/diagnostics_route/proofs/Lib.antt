mod Numbering
mod Says
mod Shows
mod Worked
