pub mod Statements
pub mod OtherParams
pub mod Declared
