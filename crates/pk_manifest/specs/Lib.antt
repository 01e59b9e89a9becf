-- The definitions that contracts of bodies and gates cite.
pub mod Bodies
pub mod Spelling
pub mod Sound
pub mod Fields
pub mod Current
pub mod Firm
pub mod Said
pub mod Evolves
pub mod Moves
pub mod Written
pub mod Found
