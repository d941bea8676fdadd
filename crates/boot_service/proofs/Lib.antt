pub mod lemmas
mod Merging
mod Landing
mod Serving
