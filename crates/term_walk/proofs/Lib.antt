pub mod Shadowing
pub mod Gathered
pub mod Fitting
pub mod Entries
pub mod ParamLists
