pub mod Records
pub mod RoundLeft
pub mod Changes
pub mod Results
pub mod Refusals
pub mod Sights
pub mod NameLists
pub mod SalvageChanges
