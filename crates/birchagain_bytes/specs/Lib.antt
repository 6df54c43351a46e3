pub mod Statuses
pub mod Packed
pub mod PackedFolder
pub mod Refusals
pub mod Bytes
pub mod Fills
