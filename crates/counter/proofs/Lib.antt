pub mod Lengths
pub mod Telling
pub mod Turns
