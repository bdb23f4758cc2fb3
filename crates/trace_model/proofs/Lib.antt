pub mod Newlines
pub mod Readings
pub mod Shelving
pub mod PlannedItems
