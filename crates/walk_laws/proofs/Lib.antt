pub mod Levels
pub mod CodeLaws
pub mod Agreement
mod SampleTrees
mod Samples
mod MoreSamples
