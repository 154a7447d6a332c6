pub mod Blinding
pub mod Proving
