pub mod Scratch
pub mod Order
pub mod Folds
pub mod Tests
