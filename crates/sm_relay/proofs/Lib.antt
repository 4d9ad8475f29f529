mod Wanted
mod Walked
mod Rounding
mod Upstream
mod Origin
mod EndingWell
mod Whole
mod Reading
