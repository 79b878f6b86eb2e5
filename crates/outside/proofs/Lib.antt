-- Laws of the comparisons' doors.
pub mod Once
