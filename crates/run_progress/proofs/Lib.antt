pub mod Shortening
pub mod Painting
