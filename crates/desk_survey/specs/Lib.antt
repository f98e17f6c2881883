pub mod Histories
pub mod Surveys
