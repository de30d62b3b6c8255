pub mod Edits
pub mod Places
pub mod Indexed
pub mod Gaps
