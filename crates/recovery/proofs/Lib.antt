pub mod Compared
pub mod Lives
pub mod Openings
pub mod RecordLives
pub mod Slots
pub mod Written
