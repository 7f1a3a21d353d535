mod Covers
mod Regions
mod Programs
mod Searching
mod Own
mod Open
