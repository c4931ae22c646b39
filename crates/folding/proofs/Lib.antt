pub mod Cells
pub mod Rows
pub mod Places
pub mod Order
pub mod Keep
pub mod Into
pub mod Meaning
pub mod FoldedIn
