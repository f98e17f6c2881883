mod Blanks
mod Ordered
mod Walks
