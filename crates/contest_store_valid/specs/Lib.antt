pub mod Numbering
pub mod Keys
pub mod Accounts
pub mod Talk
pub mod Members
pub mod Files
