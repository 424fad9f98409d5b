pub mod Tokens
pub mod Laws
pub mod Words
pub mod Pieces
