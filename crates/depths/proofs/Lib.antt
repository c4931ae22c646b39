pub mod Moves
pub mod AtRest
pub mod Found
pub mod Plumbed
