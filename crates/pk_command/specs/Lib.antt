pub mod Commands
pub mod Endings
pub mod Growing
pub mod Left
pub mod Reasons
pub mod Unread
pub mod Reading
