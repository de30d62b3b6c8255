pub mod Inputs
pub mod Begun
pub mod AsBegun
pub mod KeptInputs
