pub mod OneEnd
pub mod Meets
pub mod Plain
pub mod Pairs
pub mod Comparisons
pub mod Greaters
pub mod Lifts
