pub mod Asked
pub mod LeftOutLine
pub mod OtherBoards
pub mod Audit
pub mod Shown
