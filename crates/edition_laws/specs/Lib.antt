pub mod Answered
pub mod NextInTurn
pub mod SheetsAsBefore
pub mod WorkedAnswers
pub mod WorkedDays
pub mod WorkedMending
pub mod WorkedRounds
pub mod WorkedSheets
