pub mod Printed
pub mod Lines
