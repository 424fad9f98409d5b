pub mod Refused
pub mod Starting
pub mod InOrder
pub mod Accepting
