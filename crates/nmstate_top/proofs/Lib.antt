pub mod Hardware
