pub mod Choice
pub mod Rounds
pub mod GivenUp
