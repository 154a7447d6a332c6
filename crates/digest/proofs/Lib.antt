pub mod Logic
pub mod Steps
pub mod Blocks
pub mod Chunks
pub mod Mapped
pub mod Tail
pub mod Roots
