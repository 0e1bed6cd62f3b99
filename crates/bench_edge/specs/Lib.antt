pub mod Calls
pub mod Posts
pub mod Sheets
