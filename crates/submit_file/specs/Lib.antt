pub mod Lines
pub mod Forms
pub mod Fronts
pub mod Submit
pub mod Readings
pub mod Displayed
pub mod Placed
pub mod Placings
