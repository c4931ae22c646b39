pub mod Images
pub mod Judge
