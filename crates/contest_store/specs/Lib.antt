pub mod StoreErrors
pub mod Keeping
pub mod InMemory
pub mod Grown
