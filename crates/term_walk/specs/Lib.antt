pub mod Scopes
pub mod Params
pub mod Binding
