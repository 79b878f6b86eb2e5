-- What the C entry points answer, and what they leave in the lists.
pub mod Entry
