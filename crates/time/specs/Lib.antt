pub mod Time
pub mod TimeEnds
pub mod TimeLaws
