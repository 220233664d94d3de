pub mod Demanding
pub mod Loading
pub mod Pairing
pub mod Responding
pub mod Shaping
pub mod Slices
