pub mod Both
pub mod OneDocument
pub mod Places
