pub mod Dealt
pub mod DealtSizes
pub mod Splitting
pub mod Gathered
