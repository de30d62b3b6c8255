pub mod Node
pub mod Jobs
pub mod JobAnswers
pub mod Commands
pub mod Requests
pub mod Specs
pub mod Categories
