pub mod Numbers
pub mod Sections
pub mod Targets
pub mod Image
