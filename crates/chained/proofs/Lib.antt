pub mod Frames
pub mod Writes
pub mod Images
pub mod Books
