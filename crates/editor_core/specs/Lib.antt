pub mod Editors
