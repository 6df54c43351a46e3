pub mod Translation
pub mod Languages
pub mod Statuses
pub mod QueryWords
pub mod Found
