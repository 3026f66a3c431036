mod Asked
mod Kept
mod Links
mod Same
mod Sharing
mod Walked
