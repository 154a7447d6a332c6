pub mod Appending
pub mod Classes
pub mod Decimals
pub mod Hexadecimal
pub mod Lines
pub mod Pieces
