pub mod PredicatePlaces
pub mod Declarations
pub mod Following
pub mod ConsumedAtoms
pub mod Openings
pub mod Changes
pub mod Stages
pub mod Sound
