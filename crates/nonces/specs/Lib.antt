pub mod Nonces
pub mod Sources
pub mod LastPlaces
pub mod Proper
