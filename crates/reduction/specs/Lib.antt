pub mod Reduce
pub mod Working
