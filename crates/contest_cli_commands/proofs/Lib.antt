pub mod InputLemmas
mod InitLemmas
mod OpeningLemmas
mod ImportLemmas
mod PrintLemmas
mod ExportLemmas
mod ShownLemmas
mod ResultsLemmas
mod FeedLemmas
mod ClientLemmas
mod ServingLemmas
mod ServeEndings
mod TableLemmas
pub mod UpgradeEndings
