pub mod Counted
pub mod Memory
pub mod Outside
pub mod Real
pub mod Stored
