pub mod Tags
pub mod Worked
