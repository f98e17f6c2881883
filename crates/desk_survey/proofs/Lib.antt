mod Answered
mod Steps
