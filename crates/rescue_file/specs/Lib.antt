pub mod Written
pub mod Results
pub mod Reading
pub mod Grammar
pub mod Numbered
pub mod Fit
pub mod Displayed
