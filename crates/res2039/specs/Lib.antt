pub mod Powers2039
pub mod Elements
pub mod Laws
pub mod Kind
pub mod Worked
pub mod Factors
