pub mod Digits
pub mod FirstPieces
pub mod TokenValues
pub mod Lexing
