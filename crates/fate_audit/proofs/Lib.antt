pub mod Plays
pub mod Orders
pub mod Lists
pub mod Gathered
pub mod Answered
pub mod Rescued
