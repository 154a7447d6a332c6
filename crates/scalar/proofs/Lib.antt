pub mod Meets
pub mod Reckoning
pub mod Codes
