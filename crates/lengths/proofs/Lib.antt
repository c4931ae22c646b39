pub mod Cells
pub mod Found
