pub mod Folding
pub mod Found
