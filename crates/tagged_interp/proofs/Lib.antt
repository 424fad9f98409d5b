pub mod Cells
pub mod Fronts
pub mod Stepping
pub mod Working
