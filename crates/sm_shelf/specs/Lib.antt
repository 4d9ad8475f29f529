pub mod Parts
pub mod Laying
pub mod Past
pub mod Shelf
pub mod Shown
