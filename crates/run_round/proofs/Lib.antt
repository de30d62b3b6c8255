pub mod Ends
mod Refusals
mod Openings
mod Stops
