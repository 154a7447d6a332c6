pub mod Scalars
pub mod Inverse
pub mod Laws
pub mod Modulo
pub mod Theorems
