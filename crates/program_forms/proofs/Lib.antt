pub mod Lists
pub mod Leveled
pub mod Rowed
pub mod SameRows
