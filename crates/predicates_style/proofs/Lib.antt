pub mod Characters
mod Plain
mod Children
