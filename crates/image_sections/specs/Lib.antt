pub mod Read
pub mod Sections
