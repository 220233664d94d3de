pub mod Bytes
pub mod Loads
pub mod Records
pub mod RoundTrip
pub mod Sheets
pub mod Times
pub mod Writes
