pub mod Sets
pub mod Facts
pub mod Worked
pub mod Parts
