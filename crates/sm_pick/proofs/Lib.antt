mod Passing
mod Skimming
mod Searching
mod Looking
mod Picking
mod OneAnswer
