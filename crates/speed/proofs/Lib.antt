pub mod Rounds
pub mod Tapes
