pub mod Asked
pub mod ReplayText
pub mod Replay
