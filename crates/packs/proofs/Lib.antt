pub mod Threes
pub mod Tables
pub mod Images
pub mod Filling
