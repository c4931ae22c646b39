pub mod Regions
pub mod Signatures
pub mod Table
pub mod Turns
pub mod Begin
pub mod After
