pub mod Said
pub mod Verdicts
pub mod Truth
pub mod Facts
pub mod Rows
pub mod Formulas
pub mod Places
