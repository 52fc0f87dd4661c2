mod Joining
mod Moving
mod Parts
mod Splitting
mod Taking
