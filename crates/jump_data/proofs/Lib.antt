mod Cutting
mod Fronts
mod Reading
mod Short
mod Walking
