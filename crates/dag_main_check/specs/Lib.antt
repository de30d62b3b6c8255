pub mod Warnings
pub mod CheckData
pub mod Checked
pub mod Planned
pub mod ByPlan
pub mod Displayed
pub mod Missing
pub mod Consoles
