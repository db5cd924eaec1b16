pub mod Model
pub mod Ends
pub mod Sound
pub mod Laws
pub mod Compare
pub mod Greater
pub mod Ranges
