pub mod Naming
mod WhyTexts
