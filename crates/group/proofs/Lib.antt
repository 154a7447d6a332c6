pub mod Logs
pub mod Codes
pub mod Laws
pub mod Weighing
