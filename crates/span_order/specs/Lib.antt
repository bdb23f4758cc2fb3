pub mod Blocks
pub mod Hits
pub mod Ranked
pub mod Topped
pub mod Tops
pub mod Window
