pub mod lemmas
mod FoundLemmas
mod ParseLemmas
