pub mod Questions
pub mod Runs
pub mod Kept
pub mod Outside
pub mod Pinned
