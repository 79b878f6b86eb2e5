-- The text job's bytes.
pub mod Split
pub mod Word
pub mod Decimal
pub mod Number
pub mod Numbers
pub mod Line
