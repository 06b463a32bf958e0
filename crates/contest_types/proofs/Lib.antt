pub mod PlaceLemmas
pub mod Tests
pub mod Filters
pub mod Ranges
pub mod AdditionLemmas
pub mod ChangeLemmas
pub mod CopyLemmas
pub mod SetupLemmas
pub mod IdLemmas
pub mod TextLemmas
pub mod RefusalLemmas
mod ExamplesRefusals
pub mod RelTimeLemmas
pub mod DateCounts
pub mod Times
pub mod MomentLemmas
mod ExamplesMoments
pub mod Printed
pub mod RelTimeReading
pub mod NumeralLemmas
pub mod OrderLemmas
pub mod SightLemmas
pub mod ExampleContest
mod ExamplesSight
pub mod GroupLemmas
pub mod NameLemmas
pub mod AlikeLemmas
pub mod ExampleTalk
mod ExamplesAlike
mod ExamplesGroups
mod ExamplesUnlike
pub mod SeriesLemmas
pub mod ValidParts
pub mod AddLemmas
pub mod AddClarification
pub mod AddRejudging
pub mod AccountLemmas
pub mod GrownSettings
pub mod AddSettings
pub mod AddRows
pub mod AddChanges
pub mod AddEntry
pub mod VerdictLemmas
mod ExamplesValid
mod ExamplesSettings
mod ExamplesAdding
mod ExamplesLimits
pub mod Different
pub mod Placed
pub mod InOrder
pub mod KeyOrder
pub mod ProblemOrder
pub mod InOrderLemmas
pub mod LastLemmas
pub mod WordLemmas
pub mod Rising
pub mod SeenWhole
pub mod DashedNumbers
pub mod HeardWhole
pub mod SettingsTest
pub mod ShownVerdicts
pub mod RoleLemmas
pub mod ThawLemmas
pub mod ReleaseLemmas
pub mod ExtensionLemmas
pub mod OwnLemmas
pub mod JudgementLemmas
