pub mod Unopened
pub mod Ports
