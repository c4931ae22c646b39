pub mod Few
pub mod Taken
pub mod Long
pub mod Short
pub mod Front
pub mod Offsets
