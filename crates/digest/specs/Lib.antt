pub mod Constants
pub mod Words
pub mod Padding
pub mod Sha256
