mod Links
mod Sessions
mod Starting
mod Told
mod Turning
mod Ticking
