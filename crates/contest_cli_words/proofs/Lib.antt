mod NumberLemmas
mod WordLemmas
mod CommandLemmas
mod NamingLemmas
mod RefusalNames
mod ArgumentLemmas
pub mod StreamLemmas
