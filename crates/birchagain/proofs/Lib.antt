mod HolderCounts
pub mod LeftWords
mod Logarithms
mod PlacedRows
pub mod Spaces
mod TextDrafts
mod WordRefusals
