pub mod Computed
pub mod Leaves
pub mod Pieces
pub mod Worked
