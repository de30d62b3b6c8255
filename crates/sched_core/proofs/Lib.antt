pub mod Keys
pub mod Tests
pub mod Sound
pub mod Finished
pub mod Matching
pub mod LivesLemmas
pub mod RoundsLemmas
pub mod Namesakes
pub mod Sweeps
mod Heads
mod Going
pub mod Held
pub mod Shown
pub mod Leaf
pub mod Moves
pub mod Bounds
pub mod Turns
pub mod RunCommands
pub mod EveryRuns
pub mod Throttling
pub mod Best
pub mod Aborts
mod FactsLemmas
pub mod Alone
pub mod Ahead
pub mod Ended
pub mod Added
pub mod Batches
mod Noted
mod Taking
mod Members
mod Queues
mod Tallies
mod Keeping
mod Settling
mod Shares
mod Undone
mod Turning
pub mod Failed
