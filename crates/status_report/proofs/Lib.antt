pub mod Running
pub mod Finished
