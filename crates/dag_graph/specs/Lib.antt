pub mod Graph
pub mod Numbers
pub mod Climb
pub mod Cycles
pub mod Search
pub mod Names
pub mod Parts
