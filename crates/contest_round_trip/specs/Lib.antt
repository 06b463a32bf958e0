pub mod PlainValues
pub mod Audited
pub mod Forms
pub mod JurysFeeds
