pub mod Bytes
pub mod Counter
pub mod Block
pub mod Examples
