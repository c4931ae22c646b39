pub mod Spreads
pub mod Events
pub mod Levels
pub mod Climbs
pub mod Settles
pub mod Answers
