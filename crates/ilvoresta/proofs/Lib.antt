-- Laws of the C entry points.
pub mod Again
pub mod Answered
pub mod Shown
pub mod Once
