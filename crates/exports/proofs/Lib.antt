mod Applied
mod Whole
