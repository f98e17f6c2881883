mod Depths
mod Joined
