pub mod Dealing
pub mod Splitting
pub mod Gathering
