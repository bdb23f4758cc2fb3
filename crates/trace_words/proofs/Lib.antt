pub mod Json
pub mod Numbers
pub mod Cuts
pub mod Counted
pub mod Rows
pub mod Lines
pub mod Values
