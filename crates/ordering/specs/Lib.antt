pub mod Order
pub mod Found
