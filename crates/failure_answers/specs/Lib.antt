pub mod WhyData
pub mod Answered
