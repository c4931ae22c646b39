pub mod Taking
pub mod Reading
pub mod RoundTrip
