pub mod Depths
pub mod Chains
pub mod Levels
pub mod Entries
pub mod RootCounts
pub mod Wholes
