-- What a trace answers, and what it leaves in the lists; then what the functions below it say to each other.
pub mod Answer
pub mod Inside
