-- What the laws in src/ are proved by. Such a proof may cite the crate's specs/ and not its proofs/, so these lemmas stand here. No
-- contract cites them, and whoever reads the contracts can pass them by.
pub mod Bounds
pub mod Changes
pub mod Counts
pub mod Earliest
pub mod Fixed
pub mod Layered
pub mod Shapes
pub mod Solutions
pub mod Sums
