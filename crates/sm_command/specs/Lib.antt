pub mod Choosing
pub mod Lasting
pub mod Listing
pub mod Opening
pub mod Serving
