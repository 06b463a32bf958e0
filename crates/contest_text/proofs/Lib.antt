pub mod TextLemmas
mod Examples
