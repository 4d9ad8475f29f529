mod Going
mod Lists
mod Replies
mod Seeing
mod Handling
mod Ending
mod Joining
