pub mod Codes
pub mod Guide
pub mod Near
pub mod Told
