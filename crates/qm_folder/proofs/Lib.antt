mod Causes
mod CleanNames
mod Commits
mod ComparedFiles
pub mod ComputedAfresh
mod Files
mod GivenNames
mod Index
pub mod Moments
pub mod NameLists
mod Runs
mod Updates
