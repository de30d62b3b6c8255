pub mod Binds
pub mod Scripts
pub mod CommandsExist
pub mod PlainCommands
pub mod CategoryPlaces
