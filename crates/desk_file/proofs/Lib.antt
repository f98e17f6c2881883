mod Opened
mod Marking
mod Using
