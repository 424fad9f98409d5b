pub mod Labs
pub mod Steps
