mod Cells
mod Updates
pub mod Worked
