pub mod Beside
pub mod Folder
pub mod Journals
pub mod Rescues
pub mod Opened
pub mod Noted
pub mod Changes
