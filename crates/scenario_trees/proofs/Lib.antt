mod Draws
mod Plain
