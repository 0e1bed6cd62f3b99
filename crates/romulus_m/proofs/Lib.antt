pub mod Pairs
pub mod Worked
