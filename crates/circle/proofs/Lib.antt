pub mod Algebra
pub mod Covered
pub mod Cyclic
pub mod Fourfold
pub mod Field
pub mod Lawful
