pub mod Triangle
pub mod Cells
pub mod RowStarts
pub mod Pairs
pub mod Works
pub mod Figures
