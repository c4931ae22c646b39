pub mod ImageText
pub mod Loaded
