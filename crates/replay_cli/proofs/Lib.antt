pub mod CheckRuns
pub mod Cutting
pub mod Known
pub mod LineRuns
pub mod LoadedShelves
pub mod SettingUp
pub mod Traces
