mod Changes
mod OfRound
mod Requests
mod Salvages
mod Worlds
pub mod Checks
