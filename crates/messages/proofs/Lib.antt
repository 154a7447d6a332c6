pub mod Ruled
pub mod Reading
pub mod Placing
pub mod Writing
pub mod Trips
pub mod Tokens
pub mod Batches
