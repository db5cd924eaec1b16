pub mod Refusals
pub mod Truths
pub mod Sharing
