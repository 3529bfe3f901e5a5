mod Counting
mod Finding
mod Joined
mod Same
mod Summed
