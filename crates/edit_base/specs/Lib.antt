pub mod Empty
pub mod Numbers
