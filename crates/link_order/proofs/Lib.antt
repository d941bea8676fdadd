pub mod lemmas
mod Before
mod Ends
mod Leads
