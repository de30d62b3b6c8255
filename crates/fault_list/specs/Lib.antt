pub mod Emptied
pub mod Emptying
pub mod FaultPlaces
pub mod LineFaults
