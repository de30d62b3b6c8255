pub mod Coded
pub mod NearWords
