pub mod Statuses
pub mod Held
pub mod Frequencies
pub mod QueryTexts
pub mod Bytes
