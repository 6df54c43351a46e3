pub mod HandleValues
pub mod RawBoxValues
pub mod Owned
