pub mod DigestText
pub mod SubmitReads
pub mod PlanFacts
pub mod PlanMade
pub mod PlanSound
pub mod PlanCommands
pub mod PlansWithoutRescue
pub mod EqualFiles
