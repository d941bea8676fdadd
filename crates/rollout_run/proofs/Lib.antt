mod Prints
mod Going
mod Few
mod Rolling
