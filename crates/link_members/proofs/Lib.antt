mod Claims
mod Contested
mod Firsts
mod Listed
mod PutLast
mod Raised
