pub mod Faults
pub mod Digits
pub mod Buffers
