pub mod Answer
pub mod Bookings
pub mod Either
pub mod PlainCase
pub mod RightFirst
pub mod Script
