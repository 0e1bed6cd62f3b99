pub mod Named
pub mod Sealing
pub mod Asking
pub mod Answering
pub mod Reopening
pub mod Lawfulness
pub mod Running
