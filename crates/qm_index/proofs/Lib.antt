mod Marks
mod Cutting
mod JoinedParts
mod Numbering
mod LastSegments
mod JoinedNumbers
mod SmallLast
mod SegmentEnds
mod FileNames
mod DeletedCount
mod SavingSteps
mod PlanWriting
mod SavedOrBefore
mod OpenRefusals
mod OpenedFiles
mod OpenedIndex
pub mod KeptOn
