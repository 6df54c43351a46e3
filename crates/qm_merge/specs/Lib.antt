pub mod Merging
pub mod JoinedRows
pub mod AliveRows
