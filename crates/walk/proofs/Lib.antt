-- Laws of the walk.
pub mod Turns
pub mod Filling
pub mod Hops
pub mod Walking
pub mod Found
pub mod Frames
pub mod Plans
pub mod FirstVoxel
pub mod SetOut
pub mod Alphas
pub mod Counts
pub mod Once
pub mod Ordering
pub mod Called
