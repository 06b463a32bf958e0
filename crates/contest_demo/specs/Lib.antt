pub mod Texts
pub mod Demo
pub mod Filling
