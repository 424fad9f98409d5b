pub mod LinForm
pub mod Columns
pub mod LinSaid
