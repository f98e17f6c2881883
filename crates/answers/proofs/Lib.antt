pub mod Fronts
pub mod SheetsOf
pub mod States
pub mod Transcripts
