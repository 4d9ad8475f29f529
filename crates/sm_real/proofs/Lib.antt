mod Parts
mod Giving
mod Visiting
