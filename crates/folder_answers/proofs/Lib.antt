pub mod Held
pub mod AllHeld
