pub mod Columns
pub mod Line
