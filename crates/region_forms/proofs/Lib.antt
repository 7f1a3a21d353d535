mod Counting
mod Worked
