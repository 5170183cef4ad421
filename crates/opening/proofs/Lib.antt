mod Kept
mod Recorded
mod Counted
