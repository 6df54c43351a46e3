pub mod Option
pub mod Refusals
pub mod Schema
pub mod Term
pub mod TermBytes
