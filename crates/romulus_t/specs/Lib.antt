pub mod ModeT
pub mod Examples
pub mod Laws
pub mod Streams
