pub mod Model
pub mod Elements
pub mod Weighted
pub mod Theorems
