pub mod OneLevel
