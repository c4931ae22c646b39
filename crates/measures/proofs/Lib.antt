pub mod Codes
pub mod Cells
