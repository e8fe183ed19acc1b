pub mod Drilling
