mod EntriesBelow
mod MoreTerms
pub mod CoveredTerms
