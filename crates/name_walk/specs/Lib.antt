pub mod Params
pub mod Plain
pub mod Known
pub mod Ends
