pub mod Redone
pub mod Numbers
pub mod Answered
pub mod Changes
