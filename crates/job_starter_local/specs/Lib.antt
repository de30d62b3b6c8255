pub mod Launching
pub mod Commands
