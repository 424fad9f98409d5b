pub mod OrderRuns
pub mod OptionWords
pub mod Numerals
pub mod Answering
pub mod Lowest
pub mod Unique
pub mod Headline
pub mod Going
