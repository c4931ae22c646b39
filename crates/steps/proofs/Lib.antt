pub mod Signs
pub mod Steps
