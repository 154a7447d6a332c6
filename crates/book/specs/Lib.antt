pub mod Meaning
pub mod Runs
pub mod Laws
pub mod Making
pub mod Words
pub mod Rooms
