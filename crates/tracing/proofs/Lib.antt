-- Laws of the trace.
pub mod Accepting
pub mod Fitting
pub mod Answering
pub mod Appending
pub mod Once
pub mod Counted
pub mod Demand2
pub mod OneCall
pub mod Room
pub mod TurnedCalls
pub mod Share
pub mod CutCalls
pub mod AppendCalls
