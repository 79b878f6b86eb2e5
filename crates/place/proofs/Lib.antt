-- Laws of the places for drawing, for the crates above.
pub mod Accepted
pub mod Deciding
pub mod Found
pub mod Quotient
pub mod Rounded
pub mod Shown
pub mod Signed
pub mod Difference
pub mod Within
pub mod OnLeg
pub mod Told
pub mod Placed
pub mod Pointed
pub mod Equation5
pub mod Bench
pub mod Once
