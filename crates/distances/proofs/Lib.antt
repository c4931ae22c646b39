pub mod Fits
pub mod Moves
pub mod Visits
pub mod Levels
pub mod Final
pub mod Rising
pub mod Measured
