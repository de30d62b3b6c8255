pub mod RunToEnd
pub mod Moments
pub mod Rounds
pub mod Causes
