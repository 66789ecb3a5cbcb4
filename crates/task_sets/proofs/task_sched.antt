mod Staging
mod Counting
mod Keeping
mod Picks
