pub mod ModeM
pub mod Examples
pub mod Joined
pub mod Laws
