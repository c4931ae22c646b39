pub mod Signatures
