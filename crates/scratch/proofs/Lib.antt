pub mod Numbers
pub mod Cells
pub mod Works
pub mod Soundness
pub mod Order
pub mod Tallies
