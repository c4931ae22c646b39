pub mod Told
pub mod Keeps
pub mod Both
