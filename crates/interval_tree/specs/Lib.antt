pub mod Answers
pub mod Ids
pub mod Order
pub mod Orders
pub mod Walk
pub mod Whole
