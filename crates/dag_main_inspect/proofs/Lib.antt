mod StatusFaults
pub mod StatusTexts
mod AuditTexts
mod Pictures
pub mod Rounds
