mod Sorted
mod Apart
mod Counts
mod Cells
