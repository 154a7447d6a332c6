pub mod Nulls
pub mod Directs
