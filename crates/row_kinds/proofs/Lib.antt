pub mod KindChanges
pub mod KindSlots
