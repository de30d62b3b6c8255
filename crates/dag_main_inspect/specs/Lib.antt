pub mod StatusData
pub mod Statused
pub mod Reported
pub mod AuditData
pub mod Audited
pub mod Drawn
pub mod LastRound
pub mod Asked
