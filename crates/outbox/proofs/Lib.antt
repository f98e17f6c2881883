mod Additions
mod Alike
mod Asking
mod Crash
mod Entered
mod FirstLines
mod Fronts
mod Halls
mod Held
mod Listed
pub mod Lists
mod Looking
mod Needed
mod Once
mod Ones
mod Openings
mod Passing
pub mod Pieces
mod Reading
mod Sent
mod Sound
mod Spelled
mod Staying
mod Told
mod Worked
mod WorkedRuns
