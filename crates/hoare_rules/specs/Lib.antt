pub mod Atoms
pub mod Made
pub mod Steps
pub mod Cells
pub mod BuiltParts
pub mod Branches
pub mod Blocks
pub mod Calls
