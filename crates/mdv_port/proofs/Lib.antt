mod Chunks
mod Firsts
mod Cutting
mod Answering
mod Reading
