pub mod Tokens
pub mod Chains
pub mod Parts
pub mod Laws
