mod Beginning
mod Ending
mod Starts
