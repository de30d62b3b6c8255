pub mod Trees
pub mod Beginnings
pub mod Standing
pub mod Behind
pub mod Paces
pub mod TableEntries
pub mod OutcomeLines
pub mod Possible
