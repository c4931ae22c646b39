pub mod Judged
pub mod Checks
pub mod Shape
pub mod First
