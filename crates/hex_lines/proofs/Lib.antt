pub mod Fills
pub mod Spelling
pub mod ReadingBack
