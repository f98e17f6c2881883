pub mod WorkedResults
