-- The lemma pages: those that callers cite are public.
pub mod Course
mod Establishing
pub mod Far
pub mod Fields
pub mod Firm
pub mod Sound
pub mod Tables
pub mod Windows
pub mod Said
pub mod Evolving
pub mod Ends
pub mod Longer
pub mod Moves
pub mod Written
pub mod Found
pub mod Apart
