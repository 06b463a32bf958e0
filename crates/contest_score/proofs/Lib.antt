pub mod Counted
pub mod CellSteps
pub mod Tables
pub mod Sums
pub mod Ranks
pub mod BoardOrder
pub mod AwardLists
pub mod FirstSolves
pub mod LeastRanks
pub mod GroupOrder
pub mod MaskLemmas
pub mod LastTypes
pub mod ListsLemmas
pub mod ValidLists
pub mod SolveLemmas
mod Examples
mod ExamplesBoard
mod ExamplesAwards
pub mod BoardAlike
pub mod AwardsAlike
pub mod SeenScores
pub mod OneChange
pub mod HiddenTeams
pub mod SameElements
pub mod BoardRows
pub mod MedalTeams
pub mod LeastOf
pub mod FirstTeams
pub mod GroupWinners
pub mod LastMinutes
pub mod CachedLemmas
pub mod OwnCells
