pub mod Skinny
pub mod RoundCount
pub mod Schedule
pub mod Examples
pub mod Sixteen
