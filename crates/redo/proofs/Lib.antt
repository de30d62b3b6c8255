pub mod Running
pub mod Numbered
pub mod Answers
mod Changes
