pub mod SideBySide
pub mod ByNames
pub mod Answers
pub mod DefinitionEnds
pub mod Instances
pub mod FirstAtoms
pub mod Heaps
