pub mod Commands
pub mod FileCommand
pub mod FileCommands
pub mod Runs
