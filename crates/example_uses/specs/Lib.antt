pub mod Rarity
pub mod Rated
