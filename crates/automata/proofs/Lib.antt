pub mod Tests
pub mod Lists
pub mod Runs
pub mod Count
pub mod Classes
pub mod Nearness
pub mod Folding
