pub mod Frames
pub mod KeyLines
pub mod Services
pub mod Sessions
pub mod Requests
pub mod Laws
