pub mod LastPlaces
pub mod Repeats
pub mod Sheets
