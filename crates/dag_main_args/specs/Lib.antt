pub mod Requests
pub mod Pages
pub mod Launchers
pub mod Matched
pub mod Table
pub mod Helps
pub mod Answered
pub mod Examples
