pub mod Counters
pub mod Ledgers
pub mod Orders
