pub mod Drawing
pub mod Valid
pub mod Promised
pub mod Accepted
pub mod Cases
