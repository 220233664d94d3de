pub mod Decoding
pub mod Encoding
pub mod Putting
pub mod Reading
pub mod Writing
