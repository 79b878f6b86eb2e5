-- Laws of the text job's bytes, for the crates above.
pub mod Split
pub mod Decimal
pub mod Digits
pub mod Numeral
pub mod Told
pub mod Sign
pub mod Every
pub mod Passed
pub mod Written
pub mod Once
