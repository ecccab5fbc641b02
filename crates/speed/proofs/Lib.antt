mod Counting
mod Files
