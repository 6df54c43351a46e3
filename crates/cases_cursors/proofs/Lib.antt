pub mod Combining
pub mod Playing
