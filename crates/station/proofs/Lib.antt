pub mod Sameness
pub mod Checks
pub mod Items
pub mod Replies
pub mod Spending
