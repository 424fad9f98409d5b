pub mod AssertionLaws
pub mod Laws
pub mod Allocs
pub mod Walked
pub mod CellLaws
pub mod ControlLaws
pub mod FileLaws
