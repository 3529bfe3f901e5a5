mod Fronts
mod Worked
