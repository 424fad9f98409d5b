pub mod Cells
pub mod TermFolds
pub mod TermInduction
pub mod TermValues
pub mod SameTerm
pub mod Rows
pub mod Entered
pub mod Scopes
