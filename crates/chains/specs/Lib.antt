pub mod Tables
pub mod Chains
pub mod Calls
pub mod Meant
pub mod Laws
