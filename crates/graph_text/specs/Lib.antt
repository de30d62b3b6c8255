pub mod Names
pub mod Clusters
pub mod Picture
pub mod Folding
pub mod Tallies
pub mod Folded
