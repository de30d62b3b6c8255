pub mod TooLong
pub mod Rehearsal
pub mod Report
pub mod Rehearsed
pub mod Refusals
pub mod Replay
pub mod Timed
