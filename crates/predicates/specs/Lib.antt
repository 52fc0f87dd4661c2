pub mod Boxed
pub mod Printed
pub mod PrintedLaws
pub mod Laws
