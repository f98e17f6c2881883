pub mod EntrantLines
