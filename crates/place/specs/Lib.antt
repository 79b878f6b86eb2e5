-- Places and points for drawing.
pub mod Answers
pub mod Ratio
pub mod Deciding
