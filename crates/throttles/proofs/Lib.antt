pub mod Within
pub mod Counts
