mod Changing
mod Helds
mod Noticed
mod Walking
mod Worked
