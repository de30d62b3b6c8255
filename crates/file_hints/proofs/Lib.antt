pub mod MacroNames
pub mod Betters
pub mod Clashing
