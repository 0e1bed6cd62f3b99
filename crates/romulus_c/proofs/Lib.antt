pub mod Carrying
pub mod Promised
