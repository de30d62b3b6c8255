mod RunPlans
pub mod RunChanges
pub mod Sites
mod OwnFiles
mod Halts
mod Strings
