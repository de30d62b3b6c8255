pub mod Fates
pub mod Shown
pub mod Audit
