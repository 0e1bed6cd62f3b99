pub mod Served
pub mod Lives
