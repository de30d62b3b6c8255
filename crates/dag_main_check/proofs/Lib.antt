pub mod PlansOfFiles
mod Checks
pub mod Refusals
mod Openings
pub mod HeldFiles
pub mod Lines
