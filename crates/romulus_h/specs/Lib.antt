pub mod Hash
pub mod Hashing
