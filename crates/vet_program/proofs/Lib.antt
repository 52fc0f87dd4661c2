mod Numbers
mod Untold
