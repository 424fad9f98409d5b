pub mod InPairs
pub mod Order
pub mod Sums
pub mod Forms
pub mod Linear
pub mod Putting
