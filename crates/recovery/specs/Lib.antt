pub mod Bytes
pub mod Example
pub mod RecordLives
pub mod Recovery
pub mod Replay
pub mod Runs
pub mod Survival
