mod Gaps
mod Items
mod Reading
mod Worked
