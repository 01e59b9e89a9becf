-- The pages of definitions.
pub mod Claims
pub mod Writing
pub mod Course
pub mod Held
pub mod Cause
pub mod Copying
pub mod Laws
pub mod Evolving
