pub mod Events
pub mod History
pub mod Law
pub mod Told
pub mod Kept
