pub mod Statuses
pub mod Ranked
pub mod BestOfParts
pub mod Merging
pub mod BestOverIndexes
