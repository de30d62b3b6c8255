pub mod Fronts
pub mod Joins
pub mod Statements
pub mod Utf8
pub mod Grammars
pub mod Places
