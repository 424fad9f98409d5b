pub mod Outcomes
pub mod Decided
pub mod Asking
pub mod Refusals
