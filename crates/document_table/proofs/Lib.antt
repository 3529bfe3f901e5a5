mod Keeping
mod Mapping
mod Numbering
mod Standing
