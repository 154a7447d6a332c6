pub mod Sums
pub mod Passing
