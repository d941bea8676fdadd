mod Lengths
mod Says
mod Answers
