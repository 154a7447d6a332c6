pub mod Batches
pub mod Blinding
pub mod Finishing
pub mod Honest
