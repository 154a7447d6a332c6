pub mod Elements
pub mod Laws
pub mod Kind
pub mod Worked
