pub mod Columns
pub mod Fronts
pub mod Sums
pub mod Sound
