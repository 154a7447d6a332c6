pub mod Answers
pub mod Issuing
pub mod Redeeming
