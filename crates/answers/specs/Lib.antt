pub mod Answers
pub mod Transcripts
pub mod Seen
