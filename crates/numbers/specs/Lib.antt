pub mod Prime
pub mod Bytes
pub mod Sought
pub mod Cycle
pub mod Numbered
pub mod Writing
pub mod Repeated
