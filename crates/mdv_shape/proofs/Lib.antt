mod Beside
mod Firsts
mod Sets
