pub mod Absorbing
pub mod Walking
pub mod Back
pub mod Found
