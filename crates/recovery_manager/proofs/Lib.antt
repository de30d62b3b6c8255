pub mod Batched
pub mod Chains
pub mod Endings
pub mod Marks
pub mod Refusals
pub mod Sealing
pub mod Spelled
