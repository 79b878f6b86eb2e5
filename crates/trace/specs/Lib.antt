-- What the program's functions say to each other.
pub mod Behind
