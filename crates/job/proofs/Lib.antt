-- Laws of the text job.
pub mod Example
pub mod Once
pub mod FewPlanes
pub mod Tracing
pub mod Printing
pub mod Steps
pub mod Flow
pub mod Ending
pub mod Lengths
pub mod Turns
pub mod Feeding
pub mod Running
