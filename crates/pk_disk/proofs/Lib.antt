-- The lemma pages: those that callers cite are public.
pub mod Changes
pub mod Crashes
pub mod Images
pub mod Joined
pub mod Moments
pub mod Ranges
pub mod Reading
pub mod FrameLemmas
