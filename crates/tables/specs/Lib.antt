pub mod Lists
pub mod Table
pub mod Lengths
pub mod Reduction
