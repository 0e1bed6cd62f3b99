pub mod Told
pub mod Kept
pub mod Carry
pub mod Promised
