pub mod Renumber
pub mod Line
