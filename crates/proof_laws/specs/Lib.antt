pub mod Scoped
pub mod Satisfied
pub mod Walked
