pub mod Marks
pub mod Levels
pub mod Outside
pub mod Names
pub mod Rows
pub mod Statements
