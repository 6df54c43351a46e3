pub mod SliceSteps
pub mod Leaves
mod Listings
mod SharedTerms
mod Phrases
pub mod HeldTerms
pub mod RestrictedTrees
pub mod UnplacedTrees
mod PrefixSets
mod Prefixes
mod PrefixRows
mod Rows
mod TreeRows
mod Booleans
mod Joins
mod TermRuns
pub mod ClauseSteps
mod TermUnions
mod TermRows
mod Nodes
mod AliveCounts
mod OneClauses
mod RunSteps
mod ExplainedScores
mod FittingBounds
pub mod LeafWeights
