pub mod RunFaults
pub mod Above
pub mod Held
pub mod Journals
pub mod OpenedFiles
pub mod Folders
pub mod Makes
