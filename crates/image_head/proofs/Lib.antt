mod Blank
mod Shown
