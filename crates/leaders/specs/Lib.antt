pub mod Leaders
pub mod Steps
