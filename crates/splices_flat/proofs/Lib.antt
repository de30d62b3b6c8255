pub mod NameLists
pub mod Limits
pub mod MacroLists
pub mod Opened
pub mod Own
pub mod OpeningFiles
pub mod DeclaredOnce
pub mod Regulars
