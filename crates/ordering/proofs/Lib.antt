pub mod Runs
pub mod First
pub mod Search
pub mod Compared
pub mod Theorems
pub mod Cases
pub mod Found
pub mod Pairs
