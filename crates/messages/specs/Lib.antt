pub mod Answers
pub mod Messages
pub mod Views
pub mod Laws
