-- What the doors of the comparisons hand over.
pub mod Doors
