pub mod Reading
pub mod Waiting
